pub mod Told
pub mod Link
pub mod Pieces
pub mod Clock
pub mod Script
pub mod Memory
pub mod Std
