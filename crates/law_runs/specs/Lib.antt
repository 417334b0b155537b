-- Runs of law records: the one that a program begins with.
pub mod Runs
