pub mod DiffLemmas
pub mod GridLemmas
pub mod GroupLemmas
pub mod LongestLemmas
pub mod TableLemmas
pub mod WaitLemmas
pub mod WalkLemmas
