pub mod SmallRings
