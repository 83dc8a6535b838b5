pub mod Appends
pub mod Bound
