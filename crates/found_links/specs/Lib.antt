pub mod Items
pub mod Ends
pub mod Links
pub mod Forms
