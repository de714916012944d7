pub mod Names
pub mod View
pub mod Level
