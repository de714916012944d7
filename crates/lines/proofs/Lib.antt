pub mod BlockLaws
pub mod LineLaws
pub mod RuleLaws
pub mod CommandLaws
pub mod Examples
pub mod RewriteLaws
