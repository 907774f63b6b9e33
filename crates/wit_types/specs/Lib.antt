pub mod Settings
pub mod Denoting
pub mod Order
pub mod Maps
pub mod Allowing
pub mod Definitions
pub mod Functions
pub mod Listing
