mod Adding
mod Routing
mod OneLink
mod BothWays
mod AtNodes
mod Made
mod Joined
mod Planned
