pub mod ColourLemmas
pub mod EdgeLemmas
pub mod LaneLemmas
pub mod MetLemmas
