pub mod Positions
pub mod Labelling
