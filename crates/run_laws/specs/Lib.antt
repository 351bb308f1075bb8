pub mod Healing
pub mod Paths
pub mod Floors
pub mod CatchingUp
pub mod Formats
pub mod calls
