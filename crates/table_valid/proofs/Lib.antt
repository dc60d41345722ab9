pub mod ValidWhole
