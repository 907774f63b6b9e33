pub mod After
pub mod Worked
