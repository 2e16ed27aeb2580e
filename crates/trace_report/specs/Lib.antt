pub mod Inside
pub mod ReportText
pub mod ReportViews
pub mod RunReports
pub mod TraceText
