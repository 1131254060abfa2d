pub mod Marks
pub mod Keeping
