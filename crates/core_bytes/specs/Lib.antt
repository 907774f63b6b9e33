pub mod Signed
pub mod Grammar
pub mod Modules
pub mod Laws
pub mod Renaming
