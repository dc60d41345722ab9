pub mod Straight
pub mod Demand3
pub mod Leaving
pub mod Embargo
pub mod Outcome
pub mod Calls
