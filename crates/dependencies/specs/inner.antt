pub mod Dependencies
pub mod Slots
