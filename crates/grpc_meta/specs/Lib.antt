pub mod Answer
pub mod Fields
pub mod Methods
pub mod Request
pub mod Laws
