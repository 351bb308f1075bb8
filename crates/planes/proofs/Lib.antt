pub mod Elementwise
pub mod Counts
pub mod Places
pub mod Behind
pub mod Common
