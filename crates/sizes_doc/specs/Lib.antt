pub mod Faults
pub mod Inside
pub mod SizeLines
pub mod SizedHost
pub mod Sizes
