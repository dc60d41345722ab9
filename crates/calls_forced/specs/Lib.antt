pub mod Marked
pub mod Report
