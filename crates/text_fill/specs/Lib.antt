pub mod Ready
pub mod Spread
pub mod Located
