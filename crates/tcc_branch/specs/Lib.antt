pub mod Tries
pub mod SecondPhase
