pub mod Alike
pub mod Missed
pub mod Lagging
pub mod Pieces
pub mod Walks
pub mod Parts
pub mod Whole
pub mod Common
