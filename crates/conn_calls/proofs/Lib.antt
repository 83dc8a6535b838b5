pub mod GivingLemmas
pub mod DealingLemmas
pub mod PollingLemmas
pub mod AskingLemmas
pub mod FreshLemmas
pub mod HeedingLemmas
