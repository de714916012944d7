pub mod CountLaws
pub mod ElementLaws
pub mod SeenLaws
pub mod ToldLaws
pub mod HeldLaws
pub mod Examples
pub mod CaseLaws
