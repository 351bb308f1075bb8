pub mod InMemory
pub mod inner
