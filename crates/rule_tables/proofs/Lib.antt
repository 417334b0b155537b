-- The laws that the functions' proofs cite.
pub mod Fitting
pub mod Fronts
pub mod Testing
pub mod Walking
