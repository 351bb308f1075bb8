pub mod Inside
pub mod Newer
pub mod Parcels
pub mod Questions
pub mod Suffixes
