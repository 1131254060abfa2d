mod Named
mod Chosen
mod Going
mod Unopened
pub mod Calls
