mod Groups
pub mod Checking
mod Fields
mod Finding
pub mod Refusing
mod Worked
