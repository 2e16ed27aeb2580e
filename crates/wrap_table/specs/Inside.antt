-- What the code keeps on its way.
pub mod Homing
pub mod Laying
