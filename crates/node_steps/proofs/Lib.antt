mod DurableExamples
pub mod DurableImages
pub mod EndLaws
pub mod Kept
mod EndExamples
pub mod Served
