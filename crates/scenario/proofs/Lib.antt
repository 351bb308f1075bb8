pub mod Walks
pub mod Steps
pub mod Lawful
pub mod Order
pub mod Sayings
pub mod OnlyFaultsOfCheck
pub mod Settled
pub mod Common
