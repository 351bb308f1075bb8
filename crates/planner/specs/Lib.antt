pub mod Stages
pub mod Plays
pub mod inner
