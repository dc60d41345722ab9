pub mod Bits
pub mod Places
pub mod Marking
pub mod Forcing
