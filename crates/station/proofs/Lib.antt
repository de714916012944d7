pub mod DecideLaws
pub mod ListLaws
