pub mod Needs
pub mod RootNeeds
