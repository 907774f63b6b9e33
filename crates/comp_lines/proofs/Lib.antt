pub mod Wide
pub mod Refusals
pub mod Worked
pub mod Shown
