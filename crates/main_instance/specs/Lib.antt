pub mod Calls
pub mod Sources
pub mod Direct
pub mod Shims
