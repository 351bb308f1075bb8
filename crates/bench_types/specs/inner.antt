pub mod FaultParts
