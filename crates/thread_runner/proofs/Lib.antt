mod Fitting
mod Lists
mod Managers
mod Messages
mod OneSeat
mod Places
mod Begun
mod Sitting
mod Putting
mod Unseating
mod AtEnd
mod Rounded
mod Closed
pub mod Calm
