mod PastEnd
mod Reacted
pub mod Kept
mod Changed
mod Going
mod Entries
mod AfterTurns
mod Beginning
mod Arms
pub mod Sendable
