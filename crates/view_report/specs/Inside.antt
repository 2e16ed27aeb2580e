-- What the reader of a report keeps on its way, private to this crate.
pub mod NoLines
