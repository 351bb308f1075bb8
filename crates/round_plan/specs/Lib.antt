pub mod Generations
pub mod Outages
pub mod Peer
pub mod Plan
pub mod Words
pub mod Writes
pub mod calls
pub mod inner
