pub mod InMemory
pub mod Steps
