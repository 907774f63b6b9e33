pub mod Faults
pub mod Places
pub mod Stack
pub mod Segments
pub mod Allocation
pub mod Fitting
pub mod MainRealloc
pub mod AdapterRealloc
