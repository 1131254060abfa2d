pub mod Records
pub mod Adding
pub mod Standing
