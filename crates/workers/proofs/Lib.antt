pub mod Holds
pub mod Gathered
pub mod Joining
pub mod Ordered
pub mod Outcomes
pub mod Common
