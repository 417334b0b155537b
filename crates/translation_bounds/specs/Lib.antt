-- What a translated table holds.
pub mod Tables
