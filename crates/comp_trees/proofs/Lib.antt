pub mod Folds
pub mod Flats
pub mod Signing
pub mod Knowing
pub mod Resources
pub mod Keeping
pub mod KnownScopes
pub mod MemberScopes
mod Worked
mod WorkedScopes
