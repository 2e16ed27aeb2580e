pub mod Amounts
pub mod Colours
pub mod Columns
pub mod Inside
pub mod Rounds
pub mod Shown
pub mod Titles
