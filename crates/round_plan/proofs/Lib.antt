pub mod Generations
pub mod Growth
pub mod Listed
pub mod Others
pub mod Planned
pub mod Streams
pub mod Written
pub mod Common
