pub mod Part
pub mod Number
pub mod Reads
pub mod Project
pub mod Table
pub mod Write
pub mod Read
pub mod Laws
