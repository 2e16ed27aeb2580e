pub mod Allotments
pub mod Allotted
pub mod Counts
pub mod Flows
pub mod Inside
pub mod Load
pub mod Networks
pub mod Rows
