-- Why the program prints the same.
pub mod PrintedAlike
