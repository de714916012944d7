pub mod Carry
pub mod Code
