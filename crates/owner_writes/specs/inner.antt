pub mod Codes
pub mod Views
