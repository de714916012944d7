pub mod PartLaws
pub mod RefusalLaws
pub mod Examples
