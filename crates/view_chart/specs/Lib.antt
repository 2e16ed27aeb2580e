pub mod Axes
pub mod Charts
pub mod Heads
pub mod Legends
pub mod Rounds
pub mod Traces
