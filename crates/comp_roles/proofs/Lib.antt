pub mod Walking
pub mod Firsts
