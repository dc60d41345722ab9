pub mod Turn
pub mod Turned
