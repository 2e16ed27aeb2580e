-- What is kept on the way, private to this crate.
pub mod Filling
pub mod Holding
