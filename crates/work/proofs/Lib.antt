pub mod Dealing
pub mod Moves
pub mod Pairs
pub mod Turns
pub mod Common
