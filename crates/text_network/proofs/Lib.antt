pub mod Spelled
pub mod Networks
