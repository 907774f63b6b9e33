pub mod Items
pub mod Naming
pub mod Tables
pub mod Rules
pub mod Indexing
pub mod Worlds
