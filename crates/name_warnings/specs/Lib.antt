pub mod Warnings
pub mod Forms
pub mod Repeats
pub mod Lines
