pub mod States
pub mod Kept
pub mod Named
pub mod Under
pub mod All
