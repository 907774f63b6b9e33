pub mod Covering
pub mod Once
pub mod Walking
