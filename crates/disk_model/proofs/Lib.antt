pub mod Calls
mod Images
mod Kept
mod Padded
mod Marks
mod Moments
pub mod Named
mod Picked
pub mod Put
mod Sides
mod Stored
pub mod Taken
