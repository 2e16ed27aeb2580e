pub mod RowLemmas
pub mod SectionLemmas
pub mod TurnLemmas
