pub mod Framed
pub mod Reading
pub mod Unfinished
pub mod Sending
pub mod Places
pub mod Marks
pub mod Fronts
pub mod Own
pub mod ControlKinds
pub mod Giving
pub mod Quiet
mod Rows
pub mod Read
pub mod PiecePlaces
