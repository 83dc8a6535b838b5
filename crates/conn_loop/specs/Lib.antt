pub mod Shown
pub mod Settling
pub mod Hearing
pub mod Rounds
