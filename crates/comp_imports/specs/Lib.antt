pub mod Interfaces
pub mod Names
