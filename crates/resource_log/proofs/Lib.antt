mod Examples
pub mod RecordLaws
pub mod SnapshotLaws
pub mod OldLayouts
pub mod WritingLaws
pub mod SoundLaws
