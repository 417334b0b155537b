-- Literals of one fluent, and the worked examples.
pub mod Literals
pub mod MeaningExamples
