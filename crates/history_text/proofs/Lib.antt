mod Texts
pub mod Worlds
pub mod OriginLaws
