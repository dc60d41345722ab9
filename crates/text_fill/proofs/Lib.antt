pub mod Defs
pub mod Spreading
pub mod Bracketed
pub mod Keeping
pub mod Quiet
pub mod Beyond
pub mod Passes
