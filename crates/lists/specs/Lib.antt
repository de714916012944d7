pub mod Check
pub mod Walk
pub mod Looked
pub mod Code
pub mod ListCode
pub mod WalkCode
pub mod PassCode
