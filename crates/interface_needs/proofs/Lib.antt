pub mod Lists
mod Owners
mod Tables
mod Places
mod Live
mod Reached
mod Entered
mod Needed
mod Near
mod Uses
mod Sound
pub mod InterfaceNeeds
mod RootTypes
pub mod Lending
mod Staying
pub mod ExportedInterfaces
pub mod Orders
pub mod RootItems
pub mod Usable
pub mod OwnResources
pub mod InterfaceTypes
pub mod OwnFunctions
pub mod PayloadNeeds
