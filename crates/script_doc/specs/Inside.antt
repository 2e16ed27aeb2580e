-- What the readers of parts find. No reader of a public contract needs these.
pub mod NamedLines
pub mod Reading
