-- The model of cores that run on their tables: courses, the state of a run, its steps, and the invariant that they keep.
pub mod Choice
pub mod Complete
pub mod CourseViews
pub mod Courses
pub mod Entering
pub mod Invariant
pub mod Next
pub mod Outlines
pub mod Phases
pub mod Posting
pub mod State
pub mod Stints
pub mod Waiting
