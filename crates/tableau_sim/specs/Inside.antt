-- What the code keeps between reading and writing: private to this crate.
pub mod Passing
pub mod Reply
pub mod Running
pub mod Stops
