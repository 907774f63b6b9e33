pub mod Files
pub mod Naming
pub mod Steps
