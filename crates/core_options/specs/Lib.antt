pub mod MainOptions
pub mod Causes
