pub mod Fires
pub mod Asked
pub mod Exchange
pub mod Space
pub mod Gaps
pub mod Steps
