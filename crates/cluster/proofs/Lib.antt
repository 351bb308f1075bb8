pub mod Written
pub mod Writing
pub mod Ahead
pub mod Begins
pub mod Opening
pub mod Standing
pub mod Lent
pub mod Common
