pub mod Forms
pub mod Values
