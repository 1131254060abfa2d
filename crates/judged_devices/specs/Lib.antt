pub mod Taking
pub mod Noting
pub mod Showing
pub mod Looking
