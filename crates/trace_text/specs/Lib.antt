pub mod TraceTexts
