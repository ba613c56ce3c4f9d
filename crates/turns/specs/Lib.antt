pub mod Kinds
pub mod Turn
