pub mod EqualKinds
pub mod Adapting
pub mod Appending
pub mod Entries
pub mod Returning
pub mod Worked
