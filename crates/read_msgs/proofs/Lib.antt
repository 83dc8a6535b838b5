pub mod FieldLemmas
pub mod PartsBack
pub mod SessionBack
pub mod CallsBack
