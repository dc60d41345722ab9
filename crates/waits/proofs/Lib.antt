pub mod Waits
pub mod Counting
pub mod Mean
pub mod Limits
