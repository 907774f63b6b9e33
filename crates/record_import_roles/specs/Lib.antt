pub mod Values
pub mod Payloads
pub mod Kinds
pub mod ImportRoles
pub mod FunctionNames
pub mod Listed
pub mod CoreImports
