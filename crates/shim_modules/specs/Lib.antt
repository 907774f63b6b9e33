pub mod Shims
pub mod Laws
