pub mod EqualTypes
pub mod TypeIndices
