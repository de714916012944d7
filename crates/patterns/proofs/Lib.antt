pub mod TestLaws
pub mod PatternLaws
pub mod NetLaws
pub mod DottedLaws
pub mod CoverLaws
pub mod SeenLaws
pub mod Examples
pub mod CaseLaws
