pub mod Kept
pub mod Numbered
pub mod inner
