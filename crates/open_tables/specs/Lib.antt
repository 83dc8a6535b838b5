pub mod Tables
pub mod Plans
pub mod Looked
pub mod Found
