-- What the theorems that join the layers say. Read in this order.
pub mod Demand3
pub mod CausalFaults
pub mod MissingAndClash
pub mod Promises
