-- The laws that the engine's functions' proofs cite.
pub mod Stores
pub mod Outside
pub mod Starts
pub mod Judging
pub mod Rounds
