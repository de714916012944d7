pub mod NameLaws
pub mod EntryLaws
pub mod StartLaws
pub mod WordLaws
pub mod CheckLaws
pub mod TableLaws
pub mod Examples
