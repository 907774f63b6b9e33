pub mod WorkedRoles
pub mod WorkedImports
pub mod Groups
pub mod Keys
pub mod Named
