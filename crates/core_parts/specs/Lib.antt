pub mod Names
pub mod Functions
pub mod Segments
pub mod Imports
