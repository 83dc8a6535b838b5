pub mod Number
pub mod Cell
pub mod Row
pub mod Rows
pub mod Answers
