pub mod HistoryLemmas
pub mod SnapshotLemmas
pub mod SplitLemmas
pub mod BookLemmas
