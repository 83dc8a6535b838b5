pub mod Writer
pub mod Texts
pub mod Rows
pub mod Asking
pub mod Response
pub mod Message
pub mod Sizes
