-- Laws of the definitions, for the crates above.
pub mod Predecessors
pub mod Lawful
pub mod Sets
-- What they and the proofs of this crate's functions rest on.
pub mod Histories
pub mod Moments
pub mod Sharers
pub mod Maps
pub mod Moves
pub mod Passes
pub mod Common
