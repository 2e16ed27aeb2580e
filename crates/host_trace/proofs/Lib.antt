pub mod FieldLemmas
pub mod MarkLemmas
pub mod RowLemmas
