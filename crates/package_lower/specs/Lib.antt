pub mod Faults
pub mod Sections
pub mod Reading
pub mod Roles
pub mod Decoding
pub mod Causes
pub mod Layer
