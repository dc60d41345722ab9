pub mod Puts
pub mod Numbers
pub mod Letters
pub mod Lists
pub mod Pages
