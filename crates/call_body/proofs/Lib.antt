pub mod ReadsLemmas
pub mod At
pub mod Exits
pub mod StepLemmas
pub mod Complete
