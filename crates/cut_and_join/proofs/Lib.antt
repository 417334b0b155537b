-- Interpretations that agree, a history within another, the values of halves and joins, complete sets, and the theorem.
pub mod Agreeing
pub mod Within
pub mod Lists
pub mod Complete
pub mod Theorem
