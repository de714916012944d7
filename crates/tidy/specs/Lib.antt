pub mod Tidy
pub mod Code
