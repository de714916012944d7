pub mod Matters
pub mod Code
