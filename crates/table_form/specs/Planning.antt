-- What the planner works on: jobs, their demand, the row by earliest deadline first, and drafts.
pub mod Demand
pub mod DraftViews
pub mod Drafts
pub mod EdfRow
pub mod Jobs
pub mod Windows
