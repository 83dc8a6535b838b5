pub mod FitsLemmas
pub mod RowLemmas
pub mod SizeLemmas
