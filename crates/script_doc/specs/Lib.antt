pub mod Events
pub mod Inside
pub mod Refusal
pub mod Script
pub mod ScriptFaults
pub mod Statements
pub mod Steps
