pub mod ValueLaws
pub mod CallLaws
pub mod OrderLaws
pub mod SizeLaws
pub mod EffectLaws
pub mod RecordLaws
pub mod FaultLaws
