-- Both round trips, however the names are spelled where they are used, and the shorthand theorem.
pub mod WrittenLines
pub mod WrittenNames
pub mod WrittenLists
pub mod WrittenSteps
pub mod Written
pub mod WrittenForms
pub mod WrittenSizes
pub mod WrittenLaws
pub mod RoundTrip
pub mod Respelled
pub mod SpelledDescription
pub mod Accepted
pub mod WrittenValues
pub mod HistoryTrip
pub mod SpelledHistory
pub mod ReadLiterals
pub mod Shorthand
