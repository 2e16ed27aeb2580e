pub mod Begun
pub mod Clashed
pub mod Judged
pub mod Placed
pub mod Readings
pub mod Reported
pub mod Settled
pub mod Windowed
