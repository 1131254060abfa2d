pub mod Locks
pub mod Counts
pub mod Searches
pub mod Answers
