pub mod LocalLaws
pub mod OutsideLaws
