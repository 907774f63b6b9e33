pub mod Nested
pub mod Naming
