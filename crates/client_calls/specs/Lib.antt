pub mod Calls
pub mod Request
pub mod Frames
pub mod Sound
pub mod Told
pub mod Given
