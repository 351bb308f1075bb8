pub mod Loops
pub mod Owners
pub mod Masks
