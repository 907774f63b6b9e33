pub mod AdapterFound
pub mod SourcesKept
pub mod Resourced
pub mod Defining
mod Recording
mod Destructing
mod Entering
mod OwnTypes
mod ExportKeys
mod ModuleKeys
mod ExportNames
mod Foreign
