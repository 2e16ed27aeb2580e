pub mod Readies
pub mod Telling
