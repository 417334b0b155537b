-- What the answers by the completion formulas stand for.
pub mod Answers
pub mod Internal
