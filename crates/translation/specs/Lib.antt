-- What the translation's promise means, besides the definitions of translation_rules.
pub mod Answers
pub mod Internal
pub mod Writers
