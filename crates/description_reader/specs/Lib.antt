-- What the description reader's promises mean. Read in this order.
pub mod Answers
pub mod Declarations
pub mod Needed
pub mod Internal
