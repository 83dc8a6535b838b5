pub mod Datum
pub mod Fault
pub mod Long
pub mod Reads
pub mod SchemaText
