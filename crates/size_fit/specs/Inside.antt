pub mod Numbered
pub mod Owned
