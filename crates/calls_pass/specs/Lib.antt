pub mod Turn
pub mod Passed
