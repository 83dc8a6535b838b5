pub mod PartLemmas
pub mod MessagesLemmas
pub mod StartedLemmas
pub mod SplitLemmas
