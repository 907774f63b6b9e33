pub mod ModuleRecords
pub mod Layer
pub mod Causes
