pub mod Sweeps
pub mod Queues
pub mod Sweeping
pub mod Going
pub mod Tallying
