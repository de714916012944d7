pub mod ExceptLaws
pub mod JoinedLaws
pub mod CheckLaws
pub mod WalkLaws
pub mod PassLaws
