pub mod Profile
pub mod Outcome
pub mod Examples
