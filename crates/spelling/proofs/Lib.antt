-- What the functions' proofs share, and what the crates above use.
pub mod Comparing
pub mod Naming
pub mod Lowering
pub mod Library
