-- What the history check's promise means.
pub mod Checks
