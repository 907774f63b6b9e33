pub mod Steps
pub mod Worlds
pub mod Packages
