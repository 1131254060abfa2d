pub mod Routes
pub mod Linked
pub mod Plans
