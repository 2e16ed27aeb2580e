pub mod Going
pub mod Groups
pub mod Inside
pub mod Kinds
pub mod Numbers
pub mod Troops
