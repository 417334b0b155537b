-- Answers as numbers.
pub mod Codes
pub mod FormulaCodes
