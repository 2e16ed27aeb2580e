-- What the code keeps on its way. No reader of a public contract needs these.
pub mod Bits
