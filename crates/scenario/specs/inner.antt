pub mod View
pub mod Parts
pub mod Elements
pub mod Checked
