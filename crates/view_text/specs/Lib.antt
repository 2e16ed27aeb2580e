pub mod Inside
pub mod TextCharts
pub mod TraceTexts
