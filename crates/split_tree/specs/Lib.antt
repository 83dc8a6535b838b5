pub mod Intervals
pub mod Nodes
pub mod Cuts
pub mod Parts
pub mod Laws
