pub mod Budget
pub mod Entry
pub mod Exchange
pub mod FaultLine
pub mod Field
