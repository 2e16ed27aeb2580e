pub mod Choice
pub mod Inside
pub mod Periods
pub mod Tasks
