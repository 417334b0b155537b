-- What is printed for an answer. Read in this order.
pub mod Writing
pub mod Printed
pub mod NumberExamples
