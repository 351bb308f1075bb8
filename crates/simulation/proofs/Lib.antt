pub mod Stepping
pub mod Common
