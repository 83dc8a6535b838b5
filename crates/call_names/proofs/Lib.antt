pub mod LossLemmas
pub mod TableLemmas
pub mod NodeLemmas
