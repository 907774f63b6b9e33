pub mod Built
pub mod Measured
pub mod Naming
pub mod Optional
