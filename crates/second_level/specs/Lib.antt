pub mod Pick
pub mod Stints
