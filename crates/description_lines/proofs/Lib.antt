-- The worked examples.
pub mod LineExamples
