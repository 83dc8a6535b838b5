pub mod IntegerLemmas
pub mod BitLemmas
pub mod CodeLemmas
pub mod TableLemmas
pub mod WindowLemmas
pub mod HuffmanLemmas
pub mod PlaceLemmas
pub mod LawLemmas
