-- What these functions promise each other.
pub mod Internal
