pub mod Places
pub mod Members
pub mod Titles
pub mod Exports
pub mod Offers
pub mod Interfaces
pub mod Foreign
pub mod Needs
