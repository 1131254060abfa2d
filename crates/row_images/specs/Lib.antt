pub mod Joining
pub mod Undoing
