pub mod Composition
pub mod Meeting
pub mod Linking
