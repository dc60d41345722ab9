pub mod Peeling
pub mod Arguments
pub mod Fronts
pub mod Putting
