pub mod BuiltIns
pub mod Payloads
