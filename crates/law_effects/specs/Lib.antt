-- What one law does. Read in this order.
pub mod Applying
pub mod Effects
