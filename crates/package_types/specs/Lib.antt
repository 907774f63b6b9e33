pub mod Sizes
pub mod Types
pub mod Functions
pub mod Named
pub mod Instances
