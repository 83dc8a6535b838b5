pub mod Lease
pub mod Reading
