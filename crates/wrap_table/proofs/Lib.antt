mod HomingLemmas
mod LayingLemmas
pub mod Positions
mod RowsLemmas
pub mod Serving
mod WholeLemmas
mod WrappedPlan
pub mod Wraps
