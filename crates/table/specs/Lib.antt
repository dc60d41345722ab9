pub mod Words
pub mod Meaning
pub mod Size
pub mod Valid
pub mod Tests
pub mod Split
pub mod Fire
pub mod Examples
