pub mod Last
pub mod Rising
pub mod Keeping
pub mod Common
