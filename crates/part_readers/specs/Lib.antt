pub mod Reading
pub mod PartReaders
pub mod ArgumentReaders
pub mod Writable
