pub mod PlanLemmas
pub mod ReplyLemmas
mod Rows
