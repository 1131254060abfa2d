pub mod Tests
pub mod OpenLaws
pub mod IndexLaws
pub mod PlaceLaws
pub mod StepLaws
pub mod CallLaws
