-- The library for C: what the functions on texts answer and leave, demand 2 on the engine's numbers, what the numbers by the
-- completion formulas say, demand 3 and the fault on numbers, and which codes can come.
pub mod Texts
pub mod SetCodes
pub mod FormulaNumbers
pub mod TextReadings
pub mod CodeLists
