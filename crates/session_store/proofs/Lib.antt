pub mod ListLaws
pub mod SessionLaws
pub mod ShortRecords
