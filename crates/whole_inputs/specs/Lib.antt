-- What a whole input holds: a description and a history of it.
pub mod Inputs
pub mod Internal
