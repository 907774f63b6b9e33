pub mod Kinds
pub mod Adapted
pub mod Needed
pub mod Encodings
pub mod Plans
pub mod Tables
pub mod Laws
