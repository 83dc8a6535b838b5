pub mod PartLemmas
pub mod NumberLemmas
pub mod TableLemmas
pub mod WriteLemmas
pub mod ReadLemmas
