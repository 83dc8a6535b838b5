pub mod Range
pub mod Window
pub mod Calls
