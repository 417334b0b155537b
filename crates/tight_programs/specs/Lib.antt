-- What is said of tight programs. Read in this order.
pub mod TightPrograms
pub mod LiteralCompletion
