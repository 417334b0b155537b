-- What a line of output stores, and the worked examples.
pub mod Stores
pub mod NumberExamples
