pub mod Lines
pub mod Reading
pub mod Judging
pub mod Steps
pub mod Safe
pub mod Exact
