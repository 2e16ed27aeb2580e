-- What the code keeps on its way, private to this crate.
pub mod Gathered
pub mod Near
