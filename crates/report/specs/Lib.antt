pub mod Line
pub mod Columns
pub mod Report
pub mod Trace
pub mod Compare
pub mod calls
pub mod inner
