-- Which refusals can come.
pub mod Refusals
