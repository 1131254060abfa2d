mod Equals
mod Merges
mod Restored
mod Sequels
