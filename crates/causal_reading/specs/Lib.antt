-- What the causal reading answers. Read in this order.
pub mod Verdicts
pub mod Readings
