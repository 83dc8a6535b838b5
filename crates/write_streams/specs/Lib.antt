pub mod Book
pub mod Stands
