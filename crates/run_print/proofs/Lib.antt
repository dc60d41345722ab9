pub mod Playing
pub mod Means
pub mod Fits
