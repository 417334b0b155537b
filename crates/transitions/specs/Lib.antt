-- What a description means. Read in this order.
pub mod Meaning
pub mod MeaningExamples
