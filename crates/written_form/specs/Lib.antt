-- The text that is written for a description and for a history, and what short laws stand for.
pub mod Writing
pub mod Writable
pub mod HistoryWriting
pub mod Shorthand
pub mod Respelling
