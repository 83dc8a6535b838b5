pub mod Codes
pub mod Deciding
pub mod Lines
pub mod Streams
pub mod Choosing
pub mod Held
pub mod Items
