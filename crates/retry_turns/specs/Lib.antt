pub mod Plans
pub mod Queues
