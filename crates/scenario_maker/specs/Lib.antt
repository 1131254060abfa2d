pub mod Draws
pub mod Made
pub mod Scenarios
pub mod Worked
