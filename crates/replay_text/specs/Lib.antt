pub mod Refusal
pub mod ReplayText
