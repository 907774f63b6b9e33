mod Converting
mod Apart
pub mod Guarantees
