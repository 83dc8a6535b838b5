pub mod CutLemmas
pub mod BodyLemmas
