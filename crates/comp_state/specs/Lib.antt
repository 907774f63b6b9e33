pub mod Encoding
pub mod Tables
