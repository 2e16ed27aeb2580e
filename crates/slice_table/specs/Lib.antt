pub mod CoreSlices
pub mod Inside
pub mod Owners
pub mod Slices
