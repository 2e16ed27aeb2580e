pub mod BoxedLemmas
pub mod ColumnLemmas
pub mod JoinedLemmas
pub mod KeyLemmas
pub mod LaneLemmas
pub mod PlaceLemmas
pub mod Sizes
