mod Joined
mod BaseRead
mod BeforeRead
mod Told
