pub mod Instances
pub mod Faults
pub mod ImportNames
pub mod Imports
pub mod Counts
pub mod Fixups
pub mod Sections
pub mod Laws
