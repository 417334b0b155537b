-- Laws of trying the laws of a step: those that its functions' proofs cite, and those that the theorems above cite.
pub mod CausedHeads
pub mod Trying
pub mod Ranges
