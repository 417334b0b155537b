-- What these functions promise the readers'.
pub mod Internal
