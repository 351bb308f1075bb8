pub mod NodeTableView
pub mod Entries
pub mod inner
