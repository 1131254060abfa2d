pub mod Grants
pub mod Conflicts
pub mod SecondPhase
