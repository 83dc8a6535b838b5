pub mod Cut
pub mod Responses
pub mod Batch
pub mod Body
