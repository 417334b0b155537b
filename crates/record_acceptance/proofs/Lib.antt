-- What callers' proofs cite.
pub mod Checked
