pub mod Book
pub mod Calls
pub mod Kept
pub mod Shifts
