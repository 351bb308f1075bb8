pub mod Carrying
pub mod Pushes
pub mod inner
