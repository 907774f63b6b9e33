pub mod Acting
pub mod Placed
pub mod Exported
mod Instantiating
pub mod ShimInstance
mod FixupGiven
pub mod FixupInstance
pub mod Filled
mod Worked
