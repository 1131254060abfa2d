pub mod GrantLaws
pub mod ConflictLaws
