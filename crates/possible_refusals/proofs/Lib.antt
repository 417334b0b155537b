pub mod Readers
pub mod Checks
