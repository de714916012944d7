pub mod Check
pub mod Search
pub mod Looked
pub mod FileCode
pub mod Code
