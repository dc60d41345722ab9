pub mod Given
pub mod Labelled
pub mod Lined
pub mod Records
pub mod Enough
pub mod Shows
