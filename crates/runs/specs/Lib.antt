pub mod Inputs
pub mod Reports
pub mod Runs
pub mod Comparisons
pub mod inner
