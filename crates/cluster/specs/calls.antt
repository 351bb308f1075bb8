pub mod Clusters
pub mod Plans
pub mod Standing
