pub mod Meaning
pub mod Standing
pub mod Keeping
pub mod Openings
pub mod Answers
pub mod Lawful
pub mod Laws
