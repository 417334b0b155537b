-- What the answer-set engine's promises mean. Read in this order.
pub mod Answers
pub mod Internal
