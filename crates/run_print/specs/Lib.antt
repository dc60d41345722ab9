pub mod Print
pub mod Rounds
pub mod Examples
