pub mod Running
pub mod Seats
pub mod Ready
pub mod Ending
pub mod Shown
