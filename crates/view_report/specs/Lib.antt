pub mod Inside
pub mod Lines
pub mod Reports
pub mod RunCsv
pub mod RunJson
