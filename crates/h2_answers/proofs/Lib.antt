pub mod DueLemmas
pub mod QueueLemmas
pub mod ReplyLemmas
