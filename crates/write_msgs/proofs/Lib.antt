pub mod TextLemmas
pub mod WritingLemmas
pub mod FaultLemmas
pub mod RepeatedLemmas
pub mod ReadBack
pub mod RequestBack
pub mod ResponseBack
