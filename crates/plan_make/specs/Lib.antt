pub mod Faults
pub mod Inside
pub mod Layout
pub mod Planned
pub mod SplitInTurn
pub mod Unsplit
pub mod Refusal
