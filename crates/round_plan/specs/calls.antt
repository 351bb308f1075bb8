pub mod Outages
pub mod Words
pub mod Writes
