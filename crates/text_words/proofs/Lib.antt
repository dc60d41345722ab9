pub mod Lexing
pub mod Positions
pub mod WordSorts
