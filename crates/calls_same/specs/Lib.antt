pub mod Pieces
pub mod Unused
pub mod Answer
