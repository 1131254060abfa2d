pub mod Condition
pub mod ConditionOf
pub mod Orders
pub mod Statuses
pub mod ValueOrder
