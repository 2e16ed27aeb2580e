-- What the code keeps on its way: its structs as plain lists, and loop states.
pub mod Demanded
pub mod Edges
pub mod Filling
pub mod Lacking
pub mod Marking
pub mod Reach
pub mod Reaching
