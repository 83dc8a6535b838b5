pub mod Frame
pub mod Part
pub mod Messages
pub mod Held
pub mod Front
pub mod Started
pub mod Split
