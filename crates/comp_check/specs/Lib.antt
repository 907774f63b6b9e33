pub mod Indexes
pub mod Lacking
pub mod Faults
