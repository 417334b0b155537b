-- What the engine answers, and what its answers mean. Read in this order.
pub mod Verdicts
pub mod Derived
pub mod Answers
pub mod Demand2
pub mod Limits
pub mod Examples
pub mod LimitExamples
