pub mod Adding
pub mod Crash
pub mod Examples
pub mod Readings
pub mod Rows
