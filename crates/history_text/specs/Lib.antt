pub mod Notes
pub mod Worlds
pub mod History
pub mod Origins
pub mod Lines
pub mod Report
