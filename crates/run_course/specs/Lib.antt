pub mod Changes
pub mod Inside
pub mod RunText
pub mod Runs
