pub mod WalkLemmas
pub mod GiveLemmas
pub mod IntervalLemmas
