-- What the code keeps on its way. Clauses of `run_live`, the shelves and the planner and definitions of `Crews` and
-- `Planners` cite it, and no clause of the top call rests on it.
pub mod Cells
pub mod Crewing
pub mod Finishing
pub mod Keeping
pub mod Lists
pub mod Making
pub mod Outcomes
pub mod Seeking
