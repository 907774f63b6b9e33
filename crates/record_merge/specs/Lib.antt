pub mod Said
pub mod Tables
pub mod Merging
pub mod Encodings
pub mod ModuleRecords
pub mod Causes
