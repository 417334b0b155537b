-- The answer sets of tight programs.
pub mod Supported
pub mod LiteralCompletion
