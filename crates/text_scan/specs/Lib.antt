pub mod Totals
pub mod Counting
pub mod Answers
pub mod Limits
