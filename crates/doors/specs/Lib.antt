pub mod Door
pub mod Memory
