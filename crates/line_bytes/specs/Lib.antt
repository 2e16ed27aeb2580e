pub mod Room
pub mod Tails
