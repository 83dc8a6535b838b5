pub mod CellLemmas
pub mod LongLemmas
pub mod RowLemmas
pub mod SchemaLemmas
