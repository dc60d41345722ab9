pub mod Counts
pub mod Profile
pub mod Pairs
pub mod Allowed
pub mod Places
pub mod Single
