pub mod Sharing
pub mod Schedules
pub mod Neighbours
pub mod States
pub mod ListOrder
pub mod Laws
pub mod inner
