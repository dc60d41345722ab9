pub mod Turning
pub mod Fits
