pub mod Answers
pub mod BurstText
pub mod Bursts
pub mod Inside
pub mod KeptRuns
pub mod Reports
pub mod ScriptBursts
