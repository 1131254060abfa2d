pub mod Within
pub mod Calls
pub mod Tracks
pub mod Answers
