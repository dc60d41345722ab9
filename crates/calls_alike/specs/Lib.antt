pub mod Decides
pub mod Pieces
