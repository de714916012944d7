pub mod Salvage
pub mod Code
pub mod Listed
