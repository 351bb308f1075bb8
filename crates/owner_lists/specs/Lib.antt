pub mod Missed
pub mod Latest
pub mod inner
