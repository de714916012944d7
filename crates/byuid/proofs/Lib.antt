pub mod SplitLaws
pub mod FormLaws
pub mod NumberLaws
pub mod LineLaws
pub mod FrontLaws
pub mod TextLaws
pub mod ConvertLaws
pub mod Examples
