pub mod BindingLemmas
pub mod DescriptorLemmas
pub mod DistinctLemmas
pub mod ListLemmas
