pub mod Pass
pub mod Asked
