pub mod Grammar
pub mod Laws
pub mod Seen
pub mod Worked
