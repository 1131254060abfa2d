pub mod Counts
pub mod Opens
pub mod Parts
pub mod Took
pub mod Served
pub mod First
