pub mod Additions
pub mod Renaming
pub mod Laws
