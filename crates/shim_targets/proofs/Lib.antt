mod Lists
mod Tables
mod Keys
pub mod Users
pub mod Roles
mod Lowered
mod Calls
mod ReallocShims
mod CallNeeds
pub mod NoOptions
pub mod Unencoded
pub mod FoundShims
mod AdapterNeeds
pub mod EachShim
pub mod ByKind
pub mod GivenShims
pub mod NeededShims
pub mod GivenReallocs
pub mod CallOptions
pub mod DestructorShims
pub mod AdapterShims
pub mod Worked
pub mod Returned
mod ExportKeys
mod ReturnNeeds
mod FunctionNeeds
mod AccessNeeds
pub mod Owners
