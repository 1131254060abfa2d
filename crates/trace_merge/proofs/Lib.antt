mod Order
mod Unique
pub mod Histories
