mod QueueLaws
pub mod OneAnswer
