-- What the functions' proofs cite: the words of a rule and of a choice, by their place.
pub mod RuleWords
