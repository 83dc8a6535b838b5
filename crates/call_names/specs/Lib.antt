pub mod Broken
pub mod Nodes
