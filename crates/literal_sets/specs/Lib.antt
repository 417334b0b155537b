-- What the promises on marks and values mean.
pub mod Marks
pub mod Faults
pub mod MarkExamples
