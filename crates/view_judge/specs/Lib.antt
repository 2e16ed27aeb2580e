pub mod Cells
pub mod Json
pub mod Tables
pub mod Verdicts
