mod Keeping
pub mod Sendable
