pub mod Functions
pub mod CoreImports
pub mod Lookups
pub mod FunctionExports
pub mod Reallocs
pub mod Borrowed
pub mod CoreTypes
pub mod Matching
