pub mod Laws
pub mod Counts
pub mod Merging
pub mod Passing
pub mod Sorting
pub mod Members
