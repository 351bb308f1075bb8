pub mod Rounds
pub mod calls
pub mod inner
