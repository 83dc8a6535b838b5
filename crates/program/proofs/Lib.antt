pub mod TextLemmas
pub mod BodyLemmas
pub mod TypedLemmas
pub mod PipeLemmas
pub mod SpecLemmas
pub mod ServesLemmas
pub mod RunLemmas
pub mod DrillLemmas
