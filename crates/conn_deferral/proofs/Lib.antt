pub mod Frames
pub mod Credits
pub mod Dues
pub mod Rest
pub mod Agreeing
pub mod Dealing
