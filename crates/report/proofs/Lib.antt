pub mod CellFacts
pub mod ColumnFacts
pub mod Headers
pub mod TraceFacts
