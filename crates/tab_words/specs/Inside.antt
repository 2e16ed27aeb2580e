-- What the code keeps on its way. No reader of a public contract needs these.
pub mod Digits
pub mod Fronts
pub mod Readings
