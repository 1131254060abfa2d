pub mod Traces
pub mod Merged
pub mod Links
pub mod Stops
pub mod Runs
pub mod Settling
pub mod Worked
