-- What the functions' proofs cite: what the writers store, turn by turn, and sums over the laws.
pub mod Ready
pub mod Sums
pub mod Writing
pub mod Turns
pub mod Handed
