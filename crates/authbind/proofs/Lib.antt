pub mod AnswerLaws
pub mod NameLaws
pub mod StepLaws
