-- What the functions' proofs share.
pub mod Keyed
pub mod Marking
pub mod Recording
pub mod Kept
