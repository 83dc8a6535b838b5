pub mod AboveLemmas
pub mod FieldLemmas
pub mod FitsLemmas
pub mod ListLemmas
pub mod TruthLemmas
