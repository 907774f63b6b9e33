pub mod Tables
pub mod Exports
