pub mod Earlier
pub mod Exports
pub mod Inside
pub mod Windows
