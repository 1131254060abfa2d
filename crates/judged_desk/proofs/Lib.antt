pub mod Counts
pub mod Asked
pub mod Took
pub mod Served
pub mod First
