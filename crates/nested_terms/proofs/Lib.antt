pub mod Numbering
mod WorkedNames
mod WorkedNested
