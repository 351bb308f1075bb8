pub mod Deques
pub mod Turns
