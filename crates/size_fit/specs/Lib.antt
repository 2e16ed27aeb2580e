pub mod FitText
pub mod Fits
pub mod Inside
pub mod Loads
pub mod MoreVms
