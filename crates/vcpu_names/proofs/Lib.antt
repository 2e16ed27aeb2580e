pub mod NameMapLemmas
pub mod NamesLemmas
