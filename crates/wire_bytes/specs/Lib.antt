pub mod Number
pub mod Field
