pub mod Names
pub mod Types
pub mod Worlds
pub mod ImportRoles
pub mod ExportRoles
pub mod Records
