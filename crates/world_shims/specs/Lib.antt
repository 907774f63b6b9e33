pub mod WorldShims
pub mod Refusals
pub mod Fixing
pub mod Cells
