-- What the reader keeps on its way, private to this crate.
pub mod Reading
pub mod Statements
