-- What the code keeps on its way. No reader of a public contract needs these.
pub mod Adding
pub mod Ending
pub mod Finishing
pub mod Logs
pub mod Running
