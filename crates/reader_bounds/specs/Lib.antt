-- What holds of every description and of every history that the readers take.
pub mod Accepts
pub mod Records
pub mod ByLists
pub mod Taking
