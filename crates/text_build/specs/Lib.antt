pub mod Keys
pub mod Rows
pub mod Tables
pub mod Growth
pub mod Put
