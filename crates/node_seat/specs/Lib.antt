pub mod Naming
pub mod Faults
pub mod Seating
pub mod Entering
pub mod Keeping
pub mod Ends
pub mod Running
pub mod Turns
