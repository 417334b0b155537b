-- What the output is made of, part by part, and the program's theorem.
pub mod Composing
pub mod Reported
pub mod Program
