pub mod Openings
pub mod SavedMemories
pub mod AccountRows
pub mod OpenedStores
pub mod Deletions
