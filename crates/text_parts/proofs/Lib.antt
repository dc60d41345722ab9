pub mod Rests
pub mod Stops
pub mod Fields
pub mod Gathering
pub mod Processes
pub mod Cycle
