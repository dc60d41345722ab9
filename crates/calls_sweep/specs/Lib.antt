pub mod Sweep
pub mod Visit
