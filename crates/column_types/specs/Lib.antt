pub mod Above
pub mod Fields
pub mod Name
pub mod Row
pub mod Schema
pub mod Sizes
pub mod Truth
pub mod Typed
