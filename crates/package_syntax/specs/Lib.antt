pub mod Syntax
pub mod Writable
pub mod Placing
pub mod Declarations
pub mod Sections
pub mod Causes
