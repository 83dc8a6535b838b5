pub mod Calls
pub mod Heard
pub mod Giving
pub mod Dealing
pub mod Ready
pub mod Polling
pub mod Answering
