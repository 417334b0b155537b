-- What literals, rules, answer sets and the words of a rule table are. Read in this order.
pub mod Literals
pub mod ValueFaults
pub mod Rules
pub mod AnswerSets
pub mod Words
pub mod BasicExamples
