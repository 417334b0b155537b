-- The published translation as rules, and what is answered and left for it. Read in this order.
pub mod RuleForms
pub mod Rules
pub mod Translated
pub mod TableExamples
