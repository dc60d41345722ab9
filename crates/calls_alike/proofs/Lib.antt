pub mod Decided
pub mod Fronts
pub mod Pieces
pub mod Definitions
