pub mod Elementwise
pub mod Planes
pub mod Loops
pub mod Grids
