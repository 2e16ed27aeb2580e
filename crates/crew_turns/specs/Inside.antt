pub mod Clocks
pub mod Turns
