pub mod Station
pub mod Code
