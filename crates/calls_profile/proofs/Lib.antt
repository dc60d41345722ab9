pub mod Apart
pub mod Conforming
pub mod Answering
pub mod Ready
