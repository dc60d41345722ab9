pub mod Openings
pub mod Counts
pub mod Counting
pub mod Answers
