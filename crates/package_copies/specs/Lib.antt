pub mod Weights
pub mod Instances
pub mod Worlds
