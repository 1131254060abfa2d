pub mod Lists
pub mod Counted
mod Printed
mod Histories
mod Waiting
pub mod Roles
mod Locals
pub mod Blamed
pub mod Worlds
mod Made
mod Entered
mod Entering
mod Making
mod NodesGoing
mod Earliest
mod Ended
pub mod Singles
mod Chosen
mod Played
mod Stepping
mod Sound
mod Fitting
mod Playing
mod Collected
mod Gathered
pub mod NewNodes
mod Unseated
pub mod Shown
mod Failed
mod Starting
pub mod Servers
pub mod Safe
mod Exact
pub mod Finished
pub mod Calm
