pub mod Sides
pub mod Arguments
pub mod Named
