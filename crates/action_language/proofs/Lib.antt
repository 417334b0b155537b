-- The laws of descriptions that proofs above cite, and the worked examples.
pub mod Laws
pub mod Atoms
pub mod Fits
pub mod RecordExamples
