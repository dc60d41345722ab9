pub mod Forms
pub mod Text
