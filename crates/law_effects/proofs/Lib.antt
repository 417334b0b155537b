-- Laws of a state read as it stands.
pub mod Interpretations
