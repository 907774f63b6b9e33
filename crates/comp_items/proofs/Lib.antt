pub mod Extending
pub mod Kept
pub mod Entries
pub mod Remembering
