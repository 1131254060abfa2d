pub mod Meaning
pub mod Standing
pub mod Refusals
pub mod Keeping
pub mod Laws
