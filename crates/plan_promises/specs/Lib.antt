pub mod Histories
pub mod Reservations
pub mod RunPromises
pub mod Runs
