pub mod InOrder
mod Blocks
mod InRow
mod Laid
mod Opened
mod Taking
mod InLayout
mod Forgotten
mod Empty
mod Room
mod Flags
mod Newest
pub mod Common
