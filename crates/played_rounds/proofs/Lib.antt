pub mod Soundness
pub mod Defined
pub mod Exchanged
pub mod Common
