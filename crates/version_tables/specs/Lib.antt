pub mod Views
pub mod inner
