pub mod ShownPlans
pub mod ShownReplays
pub mod ShownRuns
pub mod ShownTraces
