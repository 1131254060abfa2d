pub mod Texts
pub mod Bases
pub mod Before
pub mod Showing
