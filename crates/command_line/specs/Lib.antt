pub mod Commands
pub mod Given
pub mod Numbers
pub mod Tables
pub mod Line
pub mod Reads
pub mod Steps
