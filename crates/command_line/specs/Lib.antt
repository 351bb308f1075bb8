pub mod Endings
pub mod Jobs
