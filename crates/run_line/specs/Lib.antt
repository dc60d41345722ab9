pub mod Line
pub mod Records
pub mod Examples
