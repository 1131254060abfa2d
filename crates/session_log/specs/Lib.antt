pub mod Layouts
pub mod Records
pub mod Snapshots
pub mod Soundness
pub mod SnapshotOf
