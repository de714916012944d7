pub mod Request
pub mod Element
pub mod Code
pub mod Places
