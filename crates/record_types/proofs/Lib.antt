pub mod Sums
pub mod Counts
pub mod Loop
pub mod Arrays
pub mod Members
