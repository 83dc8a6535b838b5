pub mod Queue
pub mod Hands
