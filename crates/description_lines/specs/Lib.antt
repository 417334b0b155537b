-- What a description is as a text. Read in this order.
pub mod LineSteps
pub mod Descriptions
pub mod Answers
pub mod LineExamples
