pub mod AnswerLemmas
pub mod WordSteps
pub mod WordLemmas
pub mod GivenLemmas
pub mod TableLemmas
pub mod NumberLemmas
pub mod LineLemmas
pub mod KitFacts
pub mod KitLemmas
pub mod MatchLemmas
mod Examples
