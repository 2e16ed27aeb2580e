pub mod Deals
pub mod Demand
pub mod FleetText
pub mod Fits
pub mod Held
pub mod Inside
pub mod Order
pub mod Stays
