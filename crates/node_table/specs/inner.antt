pub mod Layouts
pub mod Flags
pub mod Codes
