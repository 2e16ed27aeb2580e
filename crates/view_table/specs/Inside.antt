-- What the writers keep on their way, private to this crate.
pub mod Walks
