pub mod StaticLemmas
pub mod TableLemmas
pub mod FieldLemmas
pub mod PartLemmas
pub mod BlockLemmas
pub mod GrammarLemmas
pub mod SpellingLemmas
