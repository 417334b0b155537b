-- What a line of a history does to the values.
pub mod Values
