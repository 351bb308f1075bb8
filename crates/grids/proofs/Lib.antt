pub mod Counted
pub mod ByOwner
pub mod Common
