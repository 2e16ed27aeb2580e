pub mod Beside
pub mod Inside
pub mod Load
pub mod Overloads
