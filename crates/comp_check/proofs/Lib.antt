pub mod Lacks
pub mod CheckedPrefix
pub mod Faults
pub mod Worked
