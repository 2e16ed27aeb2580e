pub mod Bound
pub mod Load
pub mod Order
pub mod Placement
pub mod Staying
