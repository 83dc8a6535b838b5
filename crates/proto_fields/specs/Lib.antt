pub mod Chain
pub mod Varint
pub mod Record
pub mod Message
pub mod Selection
pub mod Spans
pub mod Raw
