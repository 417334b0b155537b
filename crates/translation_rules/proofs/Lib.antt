-- The translation's counts for an open horizon, its outcomes, those for a history too, and the worked examples.
pub mod Counts
pub mod Outcomes
pub mod Histories
pub mod TableExamples
