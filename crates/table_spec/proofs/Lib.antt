pub mod ListLemmas
pub mod SchemaLemmas
