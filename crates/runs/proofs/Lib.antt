pub mod InputFacts
pub mod Texts
pub mod Turns
pub mod Reporting
pub mod Comparison
pub mod Endings
pub mod Numbers
pub mod Common
