pub mod Cores
pub mod Faults
pub mod Inside
pub mod Shares
pub mod Splitting
