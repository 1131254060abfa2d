pub mod Within
pub mod Standing
pub mod Laws
