pub mod Acted
pub mod Labelled
