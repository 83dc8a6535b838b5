pub mod Distinct
pub mod Descriptor
pub mod Types
pub mod Binding
pub mod Faults
