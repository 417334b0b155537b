-- The engine's theory: its verdicts are those of the reduct definition, and it accepts what is within its limits.
pub mod Sets
pub mod Least
pub mod Deriving
pub mod FirstFault
pub mod Passes
pub mod Decoding
pub mod Theorems
pub mod Limits
pub mod Examples
pub mod LimitExamples
