pub mod Table
pub mod Tried
pub mod Code
