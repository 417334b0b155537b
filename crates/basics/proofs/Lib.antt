-- Laws of the searches, as facts and as loops make them.
pub mod Tests
pub mod Parity
pub mod Lists
pub mod Loops
pub mod Stored
pub mod Replies
pub mod Results
pub mod Pairs
