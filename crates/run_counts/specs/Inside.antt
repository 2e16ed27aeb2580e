pub mod Repeats
pub mod Sweeps
pub mod Tells
pub mod Walks
