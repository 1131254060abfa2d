pub mod Order
pub mod Letters
pub mod Nodes
pub mod Finding
pub mod Judging
