mod ApplyLaws
pub mod ChangeLaws
mod CountLaws
mod EffectLaws
pub mod EffectRowLaws
mod Examples
pub mod FittingEffects
pub mod FittingLaws
pub mod ImageLaws
mod InsertLaws
pub mod KeyLaws
mod KeyedLaws
mod ListLaws
pub mod MapLaws
mod MatchLaws
pub mod MeaningLaws
mod PassLaws
mod PlaceLaws
pub mod PutLaws
pub mod RowFitLaws
pub mod RowsKept
pub mod SideLaws
pub mod SoundLaws
mod Searching
mod StepLaws
mod TakeLaws
