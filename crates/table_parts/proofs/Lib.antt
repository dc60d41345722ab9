pub mod ValidParts
pub mod ValidLeaves
pub mod ValidPlain
pub mod ValidRoots
