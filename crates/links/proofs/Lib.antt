pub mod ToldLemmas
pub mod PieceLemmas
pub mod ClockLemmas
pub mod TrafficLemmas
