pub mod Columns
pub mod Signs
