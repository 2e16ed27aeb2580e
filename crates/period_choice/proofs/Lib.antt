pub mod ChoiceLemmas
pub mod DivisorLemmas
pub mod TasksLemmas
pub mod Unique
pub mod Waits
