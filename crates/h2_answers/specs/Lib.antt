pub mod Bounds
pub mod Due
pub mod Kept
pub mod Laws
pub mod Replies
pub mod Search
pub mod Waiting
