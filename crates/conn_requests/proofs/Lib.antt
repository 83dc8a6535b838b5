pub mod TakenLemmas
pub mod SpelledLemmas
pub mod PlayedLemmas
pub mod EndedLemmas
mod BodyRows
mod Rows
