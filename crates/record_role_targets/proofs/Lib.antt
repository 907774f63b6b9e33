mod Walking
mod Wanting
mod Knowing
pub mod Existence
mod Naming
pub mod Reaching
mod Worked
