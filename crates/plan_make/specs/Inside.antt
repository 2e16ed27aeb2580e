-- What the code keeps on its way. No reader of a public contract needs these.
pub mod Allotted
pub mod RowsOfCores
pub mod Splits
pub mod StayingAnswer
