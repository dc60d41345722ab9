pub mod Bytes
pub mod Sorts
