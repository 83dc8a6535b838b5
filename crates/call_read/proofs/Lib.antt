mod ColumnLemmas
mod ReadLemmas
mod StreamLemmas
mod UnknownLemmas
mod CodeLemmas
mod CommitLemmas
pub mod HeldLemmas
pub mod ItemLemmas
pub mod SessionLemmas
