pub mod SameActs
pub mod Seen
pub mod Answered
pub mod Plainly
pub mod Taking
