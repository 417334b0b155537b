-- The theorems on numbers that the functions' proofs cite.
pub mod Texts
pub mod SetCodes
pub mod FormulaNumbers
pub mod CodeLists
pub mod TextReadings
pub mod CausalNumbers
