-- The two orders compared on values alone, then of each check.
pub mod Orders
pub mod Theorems
