pub mod Order
pub mod Inserting
pub mod LinkOrder
mod Legality
mod Ends
