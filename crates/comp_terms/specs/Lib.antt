pub mod Terms
pub mod UserBytes
pub mod Generated
pub mod Shimmed
pub mod Planned
pub mod Instances
pub mod Exports
pub mod Rules
