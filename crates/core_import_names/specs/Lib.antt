pub mod ImportNames
pub mod Spelling
