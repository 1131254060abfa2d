pub mod OpenTickets
pub mod Answers
pub mod RowIndex
