pub mod Parts
pub mod Works
pub mod Messages
pub mod Heads
pub mod Frames
pub mod Limits
pub mod Packets
pub mod Feeding
