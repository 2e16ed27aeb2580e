-- What the code keeps on its way. No reader of a public contract needs these.
pub mod Claims
pub mod Known
pub mod Numbers
pub mod Spacing
