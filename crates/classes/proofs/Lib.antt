pub mod Table
pub mod ClassLaws
