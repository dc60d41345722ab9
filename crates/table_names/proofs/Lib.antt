pub mod NamesForm
pub mod NamesRows
