pub mod Facts
pub mod Nodes
pub mod Handles
pub mod Types
pub mod Functions
pub mod Worlds
