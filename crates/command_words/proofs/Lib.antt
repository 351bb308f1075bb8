pub mod Additions
pub mod Faults
pub mod Reading
pub mod Examples
pub mod Common
