pub mod Inside
pub mod TraceLines
