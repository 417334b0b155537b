-- The theorems that need several layers.
pub mod Explained
pub mod Reading
pub mod Values
pub mod Translated
pub mod Demand3
pub mod CausalFaults
pub mod MissingAndClash
