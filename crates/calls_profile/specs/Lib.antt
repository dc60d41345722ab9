pub mod Profiled
pub mod Roles
