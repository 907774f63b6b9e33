pub mod WorldNames
pub mod Labels
pub mod Scopes
