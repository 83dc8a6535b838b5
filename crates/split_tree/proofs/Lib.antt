pub mod Halves
pub mod Roots
pub mod CutLemmas
pub mod Joins
pub mod Later
pub mod LeafLemmas
pub mod OneLeaves
pub mod Rows
