pub mod RowsLemmas
pub mod MessageSizes
pub mod RequestSizes
pub mod ResponseSizes
pub mod AskingLemmas
