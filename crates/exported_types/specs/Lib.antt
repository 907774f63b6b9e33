pub mod ExportedTypes
