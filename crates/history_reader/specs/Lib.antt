-- What the history reader's promises mean. Read in this order.
pub mod Histories
pub mod Internal
