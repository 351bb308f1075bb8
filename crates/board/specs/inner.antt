pub mod Codes
pub mod Plays
pub mod Raws
pub mod InSlots
