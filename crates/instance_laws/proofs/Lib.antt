pub mod Held
pub mod Members
pub mod Finding
pub mod Importing
mod WorkedInstance
