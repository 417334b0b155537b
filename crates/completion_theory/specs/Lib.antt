-- What judging by the completion formulas finds, and what it means. Read in this order.
pub mod Findings
pub mod LevelLists
pub mod Answers
pub mod Meaning
pub mod Examples
