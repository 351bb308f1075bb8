pub mod Bounds
pub mod Common
pub mod Missed
pub mod Pieces
