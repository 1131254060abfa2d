pub mod ListLaws
pub mod StoreLaws
pub mod OpeningLaws
pub mod AnswerLaws
pub mod CountedEffects
pub mod LeftLaws
