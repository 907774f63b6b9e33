pub mod Met
pub mod RootScopes
pub mod Growing
pub mod Imports
pub mod Interfaces
pub mod Forgetting
pub mod Keeping
