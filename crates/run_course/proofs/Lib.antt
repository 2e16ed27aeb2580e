pub mod ChangesLemmas
pub mod KeepLemmas
pub mod RunLemmas
pub mod TellingLemmas
