pub mod Kept
pub mod Items
pub mod Instance
pub mod Exports
pub mod SameExports
mod WorkedNestedRun
