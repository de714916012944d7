pub mod SpanLaws
pub mod CarryLaws
pub mod SizeLaws
pub mod GrantLaws
