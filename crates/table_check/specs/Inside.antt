-- What the code keeps on its way. `HaveSeen` of the checks row by row cites it, and no clause of the top call rests on it.
pub mod Counters
pub mod Marks
pub mod Meetings
pub mod Owners
pub mod Pairs
pub mod Parts
