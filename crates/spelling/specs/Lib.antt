-- How names are spelled. Read in this order.
pub mod Letters
pub mod Spelling
