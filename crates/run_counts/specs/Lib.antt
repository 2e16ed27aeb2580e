pub mod Accounts
pub mod Inside
pub mod Reports
pub mod RoundPlans
pub mod Stretches
