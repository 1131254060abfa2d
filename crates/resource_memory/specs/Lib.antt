pub mod Known
pub mod Changes
pub mod Lookups
pub mod Snapshots
pub mod Keeping
pub mod Laws
