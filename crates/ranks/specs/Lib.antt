pub mod Ranked
pub mod Runs
