pub mod StreamsBack
pub mod CommitPartsBack
pub mod CommitsBack
