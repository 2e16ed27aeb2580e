pub mod Inside
pub mod Planning
pub mod Promises
pub mod Running
pub mod Tables
