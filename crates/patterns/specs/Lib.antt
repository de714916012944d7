pub mod Host
pub mod Pattern
pub mod Code
pub mod Dotted
