pub mod Targets
pub mod Naming
pub mod Modules
pub mod Roles
pub mod Lists
pub mod Links
pub mod Supplied
