pub mod Bounding
pub mod Counting
pub mod Runs
pub mod Seeing
