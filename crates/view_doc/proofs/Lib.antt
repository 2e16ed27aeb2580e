pub mod ItemLemmas
pub mod LineLemmas
pub mod NameLemmas
pub mod PlainLemmas
pub mod ReadLemmas
pub mod OneText
