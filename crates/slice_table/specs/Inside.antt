-- What the code keeps on its way. No reader of a public contract needs these.
pub mod OwnSpans
pub mod Owners
pub mod SliceLists
pub mod SpanLists
pub mod Spans
pub mod Sweeps
pub mod Tables
