-- The laws that the functions' proofs cite, and worked examples.
pub mod Bits
pub mod Lookups
pub mod MarkExamples
