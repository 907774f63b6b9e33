pub mod ExportNames
