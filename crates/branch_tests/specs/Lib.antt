pub mod Saving
pub mod Accounts
pub mod Deletions
pub mod Taking
