pub mod Inside
pub mod NumbersLine
pub mod StintLine
pub mod StintLines
