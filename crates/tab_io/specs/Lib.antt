pub mod Adapters
pub mod FaultCounts
pub mod Memory
pub mod Sinks
pub mod Sources
pub mod Views
