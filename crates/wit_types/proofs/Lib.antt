pub mod SameKeys
pub mod Growing
pub mod Owning
pub mod Permitting
pub mod Defining
pub mod Knowing
pub mod Parting
pub mod Calling
pub mod Adding
pub mod Ordering
pub mod Stepping
pub mod Listing
mod WorkedOrder
