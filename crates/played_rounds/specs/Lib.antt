pub mod Soundness
pub mod Lists
pub mod Rows
pub mod Outcomes
pub mod calls
pub mod inner
