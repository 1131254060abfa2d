pub mod AllBack
mod AllLoaded
mod AllStarted
pub mod Apart
mod Closing
mod Cut
mod Framable
pub mod Holding
mod LoadedResource
mod NewCoordinator
mod NewServers
mod NotOpened
pub mod Numbered
mod OpenedCoordinator
mod OpenedResource
mod Passes
pub mod ReadSound
mod ReadStill
mod ReadStores
mod ReadNode
pub mod ReadAll
mod ReadParts
mod SetupWithin
mod Tables
pub mod Returned
pub mod Together
