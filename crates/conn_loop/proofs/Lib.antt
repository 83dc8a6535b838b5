pub mod SendLemmas
pub mod SettleLemmas
pub mod WentLemmas
pub mod NothingLemmas
pub mod RoundLemmas
pub mod LeavingLemmas
