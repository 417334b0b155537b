-- What the functions' proofs share.
pub mod Gathering
pub mod Naming
pub mod Walking
pub mod Answering
