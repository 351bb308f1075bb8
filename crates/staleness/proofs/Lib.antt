pub mod Known
pub mod Skipped
pub mod Totals
pub mod Common
