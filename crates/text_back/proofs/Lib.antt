pub mod Scope
pub mod Process
pub mod Tables
pub mod RoundTrip
