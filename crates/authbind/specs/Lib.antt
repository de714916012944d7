pub mod Authbind
pub mod Code
