pub mod Rounds
pub mod Streams
