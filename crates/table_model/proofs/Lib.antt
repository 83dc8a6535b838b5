pub mod RuleLemmas
pub mod OpaqueLemmas
pub mod CommitLemmas
pub mod WalkLemmas
pub mod AcceptedLemmas
pub mod PlainLemmas
pub mod LawLemmas
pub mod SourceLemmas
pub mod FitLemmas
pub mod SessionLemmas
pub mod RowLemmas
pub mod WeightLemmas
pub mod ShownLemmas
mod SessionWalkLemmas
mod VisibleWalkLemmas
