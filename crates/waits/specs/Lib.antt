pub mod Waits
pub mod Counted
pub mod Mean
pub mod Limits
pub mod Examples
