pub mod Locals
pub mod Outside
