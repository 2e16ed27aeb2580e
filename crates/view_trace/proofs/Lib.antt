pub mod DrawableLemmas
pub mod NameLemmas
pub mod ReadLemmas
pub mod StintLemmas
pub mod TraceLemmas
