pub mod calls
pub mod inner
