pub mod Insides
pub mod Stepping
