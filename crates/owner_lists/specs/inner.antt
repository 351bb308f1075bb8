pub mod Kept
pub mod Keys
