pub mod AloneLemmas
pub mod PassLemmas
pub mod OrderLemmas
pub mod GoingLemmas
pub mod StepLemmas
pub mod ReadLemmas
pub mod GoawayLemmas
mod Rows
