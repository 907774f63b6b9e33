pub mod Kinds
pub mod ExportRoles
pub mod CoreExports
