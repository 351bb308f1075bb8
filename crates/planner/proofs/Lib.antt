-- What the proofs of this crate's functions rest on.
pub mod Standings
pub mod Stages
pub mod Places
pub mod Playing
pub mod Common
