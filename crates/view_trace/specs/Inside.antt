-- What is kept on the way, private to this crate.
pub mod Named
pub mod Readings
pub mod Walks
