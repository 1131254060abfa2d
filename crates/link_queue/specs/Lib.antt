pub mod Links
pub mod Knowing
