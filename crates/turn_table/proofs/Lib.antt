pub mod LegalLemmas
pub mod ListLemmas
pub mod RuleLemmas
pub mod ViewLemmas
