pub mod Endings
pub mod Jobs
pub mod Program
pub mod Statuses
pub mod Words
pub mod Workers
pub mod calls
pub mod inner
