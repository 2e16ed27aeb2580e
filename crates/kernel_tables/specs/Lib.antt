pub mod Lines
pub mod Stated
pub mod Stretches
pub mod Sums
pub mod TablesText
