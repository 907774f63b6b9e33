pub mod Trees
pub mod WitTrees
pub mod Flattening
pub mod DefinedTrees
pub mod DefinedScopes
pub mod Operands
pub mod Members
pub mod Laws
