pub mod Address
pub mod Mapped
pub mod Bits
pub mod Code
pub mod Fields
