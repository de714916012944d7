pub mod RequestLaws
pub mod AnswerLaws
