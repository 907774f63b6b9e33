pub mod PayloadParts
pub mod Typed
