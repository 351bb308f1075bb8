-- Laws of the definitions, for the crates above.
pub mod Comparing
pub mod Marks
pub mod Sinking
pub mod EqualParts
