pub mod ValidScopes
pub mod Searched
