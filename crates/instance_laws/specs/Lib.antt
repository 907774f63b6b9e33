pub mod Instantiated
pub mod InstanceEntries
