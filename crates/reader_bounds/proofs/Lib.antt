-- What the readers take is within the limits: taken-accepted for descriptions, taken-valued for histories, whose values are those that
-- their lists say (read-by-lists).
pub mod LineCases
pub mod Drafts
pub mod Accepting
pub mod Recording
pub mod ByLists
pub mod Taking
