pub mod CoresLemmas
pub mod Cuts
pub mod Loads
pub mod OrderLemmas
pub mod SearchLemmas
pub mod SharesLemmas
pub mod Trials
pub mod Unique
