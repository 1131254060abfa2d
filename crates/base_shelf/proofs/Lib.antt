pub mod NetName
pub mod NetKept
