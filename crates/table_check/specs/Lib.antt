pub mod Clashes
pub mod Faults
pub mod Refusal
pub mod Inside
pub mod Seen
pub mod Shapes
pub mod Shortages
