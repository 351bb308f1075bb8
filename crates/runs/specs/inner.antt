pub mod Writes
pub mod Rounds
pub mod Outputs
pub mod Lines
