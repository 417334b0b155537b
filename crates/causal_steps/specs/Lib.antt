-- What laws do in a step. Read in this order.
pub mod Marked
pub mod Internal
