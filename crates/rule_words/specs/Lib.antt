-- The words of a rule of the translation by their place.
pub mod Internal
