pub mod Roles
pub mod Modules
pub mod Linting
