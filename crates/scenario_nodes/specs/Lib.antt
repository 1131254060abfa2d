pub mod Calls
pub mod Loading
pub mod Nodes
pub mod Opening
pub mod Shelves
pub mod Together
pub mod Reading
