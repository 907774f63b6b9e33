pub mod Entities
pub mod Getting
