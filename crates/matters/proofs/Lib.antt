pub mod RuleLaws
pub mod SearchLaws
pub mod TellLaws
pub mod HalfLaws
pub mod SettleLaws
pub mod CallLaws
pub mod SheetLaws
