pub mod Keeping
pub mod Numbers
pub mod Common
