pub mod Drawable
pub mod Inside
pub mod Stints
pub mod Traces
