pub mod Entering
mod Exists
mod Placing
mod Using
mod Reaching
mod Walking
