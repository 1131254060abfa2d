pub mod Durable
pub mod Ends
pub mod Framing
pub mod Nodes
pub mod Promises
