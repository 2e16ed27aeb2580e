pub mod Inside
pub mod LiveRuns
