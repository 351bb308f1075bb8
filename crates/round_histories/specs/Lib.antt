pub mod Histories
pub mod EmptyTables
