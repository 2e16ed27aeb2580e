-- What the code keeps on its way. No reader of a public contract needs these.
pub mod Logs
pub mod MachineStates
pub mod Marks
pub mod Worlds
