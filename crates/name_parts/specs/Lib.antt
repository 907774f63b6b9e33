pub mod Readings
pub mod Texts
pub mod Builtins
pub mod PayloadNames
