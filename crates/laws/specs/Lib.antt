pub mod Exchange
pub mod Steps
pub mod Examples
