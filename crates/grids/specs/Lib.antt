pub mod Common
pub mod Grids
pub mod Lags
pub mod inner
