pub mod DecideLaws
pub mod EntryLaws
pub mod WalkLaws
pub mod NoteLaws
pub mod SizeLaws
pub mod Examples
