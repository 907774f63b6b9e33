pub mod Letters
pub mod Freeing
pub mod Naming
pub mod Removing
pub mod Scoping
pub mod Importing
pub mod OneFunction
pub mod AllFunctions
pub mod OneType
pub mod AllTypes
pub mod AtHome
pub mod Copying
pub mod ForeignTypes
pub mod Planned
pub mod OwnResources
pub mod Keeping
pub mod Whole
mod WorkedFunctions
mod WorkedTypes
mod WorkedResources
pub mod Apart
