pub mod Search
pub mod Replies
pub mod Refusals
pub mod Quoted
