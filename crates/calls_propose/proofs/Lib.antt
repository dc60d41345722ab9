pub mod Proposing
pub mod Whole
