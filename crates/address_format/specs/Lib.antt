pub mod WriteCode
