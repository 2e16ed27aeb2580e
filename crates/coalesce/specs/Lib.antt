pub mod Inside
pub mod Joining
