-- The keys and their numbers, and small worked examples.
pub mod Keys
pub mod Examples
