pub mod Outcomes
pub mod Playing
pub mod RoundView
