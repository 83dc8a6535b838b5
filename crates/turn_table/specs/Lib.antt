pub mod Turn
pub mod View
pub mod Laws
pub mod Rule
