mod Apart
mod BaseFacts
mod CallFacts
mod Capped
pub mod Causes
mod Counted
mod Inverses
mod Items
mod Kept
mod Opened
mod ResourceFacts
mod Rising
mod Rowed
pub mod RunnableFacts
mod StepFacts
mod TableFacts
mod Whole
mod WholeFacts
