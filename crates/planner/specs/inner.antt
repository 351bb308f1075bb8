pub mod Places
pub mod Plays
pub mod Stages
