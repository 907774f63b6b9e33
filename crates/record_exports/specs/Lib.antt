pub mod Functions
pub mod Meaning
pub mod Exporting
pub mod Taking
pub mod Requiring
pub mod Causes
