pub mod Tables
pub mod Mentions
pub mod Items
pub mod CoreExports
pub mod ExportForms
