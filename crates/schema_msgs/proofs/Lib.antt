pub mod OutlineLemmas
pub mod LevelLemmas
pub mod WalkLemmas
pub mod ReadingLemmas
pub mod LengthLemmas
pub mod BytesLemmas
pub mod SchemaBack
pub mod StreamBack
