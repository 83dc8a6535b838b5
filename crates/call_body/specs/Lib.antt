pub mod Answers
pub mod Reading
pub mod Ends
pub mod Steps
