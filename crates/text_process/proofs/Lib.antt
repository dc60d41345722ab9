pub mod Values
pub mod Heads
pub mod Places
