pub mod Chrome
pub mod Csv
pub mod Json
pub mod Shown
