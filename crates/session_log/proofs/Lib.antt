pub mod RecordLaws
pub mod SnapshotLaws
pub mod WritingLaws
pub mod Members
pub mod RecordFacts
pub mod SnapshotKeys
pub mod SoundSnapshots
