-- The laws that the functions' proofs cite.
pub mod Fronts
pub mod Testing
pub mod Judging
