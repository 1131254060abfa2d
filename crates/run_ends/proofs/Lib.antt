mod Lists
mod Giving
mod Walking
pub mod Nodes
mod OneHistory
