pub mod WriteText
pub mod WriteRuns
pub mod WriteLaws
