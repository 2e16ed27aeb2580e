pub mod BesideLemmas
pub mod GoingLemmas
pub mod GroupLemmas
pub mod MaskLemmas
pub mod RunLemmas
pub mod TurnLemmas
