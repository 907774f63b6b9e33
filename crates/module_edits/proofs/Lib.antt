pub mod Remaining
pub mod EditedSections
pub mod Chosen
pub mod Bodies
