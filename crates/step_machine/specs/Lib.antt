pub mod Answers
pub mod Cores
pub mod Inside
pub mod Next
pub mod Refusals
pub mod Runs
pub mod Traces
pub mod Worlds
