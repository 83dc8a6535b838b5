pub mod Columns
pub mod Spec
