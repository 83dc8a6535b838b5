pub mod Grammar
pub mod Literal
pub mod Machine
pub mod Meaning
pub mod Reading
pub mod Restriction
pub mod Text
pub mod Computed
