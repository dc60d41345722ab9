pub mod Parted
pub mod Matched
