mod Ended
mod Passes
pub mod Places
mod Sendable
