pub mod Faults
pub mod Inside
pub mod Refusal
pub mod Whole
pub mod Wrapping
