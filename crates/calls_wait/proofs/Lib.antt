pub mod Waiting
pub mod Dealing
pub mod Partners
