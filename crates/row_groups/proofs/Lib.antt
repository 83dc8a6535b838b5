pub mod StartLemmas
pub mod PlaceLemmas
pub mod KeptLemmas
pub mod SliceLemmas
