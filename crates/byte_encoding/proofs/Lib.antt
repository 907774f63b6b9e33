pub mod Pieces
pub mod Numbers
pub mod Unique
pub mod Readers
