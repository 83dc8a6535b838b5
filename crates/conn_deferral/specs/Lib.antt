pub mod Deferred
pub mod Resting
pub mod Laws
