-- Laws of the causal reading: those that its functions' proofs cite, and those that the theorems above cite.
pub mod Faults
pub mod States
