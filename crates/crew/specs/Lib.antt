pub mod Trays
pub mod Named
pub mod Parts
pub mod inner
