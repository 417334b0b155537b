pub mod Decimals
pub mod Lines
pub mod Names
pub mod Stores
