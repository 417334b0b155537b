-- What bytes, lines, names, literals and lists are. Read in this order.
pub mod Bytes
pub mod Lines
pub mod Keys
pub mod Names
pub mod Lists
pub mod Places
pub mod NamePlaces
