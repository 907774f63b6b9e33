pub mod Roles
pub mod PayloadRoles
pub mod WholeTables
pub mod NotOfMain
pub mod Matched
pub mod Absent
