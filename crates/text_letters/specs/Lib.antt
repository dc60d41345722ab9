pub mod Put
pub mod Forms
pub mod Page
