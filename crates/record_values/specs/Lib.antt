pub mod Names
pub mod Interfaces
pub mod Renaming
