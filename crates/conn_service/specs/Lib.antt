pub mod Served
pub mod Computed
pub mod Quiet
pub mod Ends
pub mod Serves
pub mod Going
pub mod Laws
pub mod Steps
