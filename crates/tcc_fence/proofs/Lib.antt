mod MapLaws
pub mod RecordLaws
