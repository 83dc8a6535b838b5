pub mod EncodingLemmas
pub mod LengthLemmas
