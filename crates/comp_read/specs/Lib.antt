pub mod CanonReaders
pub mod ItemReaders
pub mod SectionReaders
pub mod Writable
pub mod Stops
pub mod Causes
