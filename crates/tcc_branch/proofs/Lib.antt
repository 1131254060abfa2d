pub mod GrantLaws
pub mod TryLaws
pub mod EndLaws
